-- What a station holds true of the others: its known places and its firm part; what working the firm count out again does to them, and to the book.
use Rattle.std.proofs.Common.{◌≡◌, ℕ, zero, suc, ◌+◌, ◌-◌, ◌<◌, ◌≤◌, min, max, Bool, true, cond, not, ◌&&◌, eqb, ◌⊎◌, List, [], ◌∷◌, map, length, take, drop, set, sym, refl, ap, ◌∙◌, subst, inl, inr, arith}
use Rattle.std.proofs.lemmas.Bool.{cases_eq, cases_lt, cond_both, ne_eqb, and_from, not_from_false}
use Rattle.std.proofs.lemmas.List.{get_or-set_same, get_or-set_other, set_past, take-append-drop, take-take, drop-take}
use Rattle.protocol.specs.declared.note.Note.{Note}
use Rattle.protocol.specs.declared.entry.Entry.{Entry}
use Rattle.vote.specs.Mask.{has, everyone}
use Rattle.vote.specs.Masks.{everyone_below}
use Rattle.journal.specs.declared.peer.Peer.{Peer}
use Rattle.journal.specs.Journal.{newest_view}
use Rattle.journal.specs.Peers.{no_peer, peer_at, lesser, least_known}
use Rattle.journal.specs.Core.{Core}
use Rattle.journal.specs.Settle.{fed, view, known_to_all, settle}
use Rattle.runs.specs.Promises.{Begins, Laws}
use Rattle.runs.proofs.Fronts.{begins_trans, begins_take, begins_length, take_begins}
use Rattle.runs.proofs.Formed.{Strong, Formed, newest_strong, feed_append}
use Rattle.runs.proofs.Worlds.{Journals, Grow}

-- the first k entries of j are those of another journal too
pub record Shared (j other : List Entry) (k : ℕ) : Type 0 where
  pub fits : k ≤ length j
  pub begins : Begins (take k j) other

pub shared_grow : {j j' o o' : List Entry} (k : ℕ) → Begins j j' → Begins o o' → Shared j o k → Shared j' o' k
shared_grow {j} {j'} {o} {o'} k p q h = record {
  fits = omega (arith, begins_length p, h.fits);
  begins = subst (λ z. Begins z o') (take_begins k p h.fits) (begins_trans h.begins q);
}

pub shared_max : {j o : List Entry} (a b : ℕ) → Shared j o a → Shared j o b → Shared j o (max a b)
shared_max {j} {o} a b p q = go (cases_lt a b)
  where
    go : (a < b) ⊎ (b ≤ a) → Shared j o (max a b)
    go (inl l) = let e : b ≡ max a b = omega arith in subst (Shared j o) e q
    go (inr l) = let e : a ≡ max a b = omega arith in subst (Shared j o) e p

pub shared_less : {j o : List Entry} (a b : ℕ) → a ≤ b → Shared j o b → Shared j o a
shared_less {j} {o} a b l h = record {
  fits = omega (arith, h.fits);
  begins = begins_trans (subst (λ z. Begins z (take b j)) (take-take a b j l) (begins_take a (take b j))) h.begins;
}

abbrev pub known_of : List Peer → ℕ → ℕ
known_of ps m = (peer_at ps m).known

-- known places stay when a mark or a wish changes in all peers
pub known_map : (f : Peer → Peer) → ((p : Peer) → (f p).known ≡ p.known) → (ps : List Peer) (m : ℕ) → known_of (map f ps) m ≡ known_of ps m
known_map f h [] m = refl
known_map f h (p ∷ ps) zero = h p
known_map f h (p ∷ ps) (suc m) = known_map f h ps m

pub known_set : (P : ℕ → ℕ → Type 0) (ps : List Peer) (m : ℕ) (p : Peer) → P m p.known → ((q : ℕ) → P q (known_of ps q)) →
    (q : ℕ) → P q (known_of (set ps m p) q)
known_set P ps m p h g q = go (cases_eq q m) (cases_lt m (length ps))
  where
    go : (q ≡ m) ⊎ (q ≡ m → ⊥) → (m < length ps) ⊎ (length ps ≤ m) → P q (known_of (set ps m p) q)
    go (inl e) (inl l) =
        subst (λ z. P z (known_of (set ps m p) z)) (sym e)
        (subst (λ (z : Peer). P m z.known) (sym (get_or-set_same ps m p no_peer l)) h)
    go (inl e) (inr l) = subst (λ z. P q (known_of z q)) (sym (set_past ps m p l)) (g q)
    go (inr e) l = subst (λ (z : Peer). P q z.known) (sym (get_or-set_other ps m q p no_peer e)) (g q)

-- the smallest of a and the known places is at most a, and at most each of them
least_start : (s v k : ℕ) (ps : List Peer) (a : ℕ) → least_known s v k ps a ≤ a
least_start s v k [] a = omega arith
least_start s v k (p ∷ ps) a =
    let low : lesser s v k p a ≤ a =
    cond_both (not (eqb k s) && has v k) (min p.known a) a (λ z. z ≤ a) (λ _. omega arith) (λ _. omega arith) in
    omega (arith, least_start s v (k + 1) ps (lesser s v k p a), low)

least_under : (s v k : ℕ) (ps : List Peer) (a m : ℕ) → m < length ps → has v (k + m) ≡ true → (k + m ≡ s → ⊥) → least_known s v k ps a ≤ known_of ps m
least_under s v k [] a m h g ne = absurd (omega (arith, h))
least_under s v k (p ∷ ps) a zero h g ne =
    let k0 : k + 0 ≡ k = omega arith in
    let here : (not (eqb k s) && has v k) ≡ true =
    and_from (not (eqb k s)) (has v k) (not_from_false (eqb k s) (ne_eqb k s (λ e. ne (k0 ∙ e)))) (subst (λ z. has v z ≡ true) k0 g) in
    let low : lesser s v k p a ≤ p.known = subst (λ z. cond z (min p.known a) a ≤ p.known) (sym here) (omega arith) in
    omega (arith, least_start s v (k + 1) ps (lesser s v k p a), low)
least_under s v k (p ∷ ps) a (suc m) h g ne =
    let e : k + 1 + m ≡ k + suc m = omega arith in
    least_under s v (k + 1) ps (lesser s v k p a) m (omega arith) (subst (λ z. has v z ≡ true) (sym e) g) (λ q. ne (sym e ∙ q))

module _ (n : ℕ) (vote : ℕ → Bool) where
  -- a firm part: a set that has the vote holds it
  pub record Firm (J : Journals) (j : List Entry) (k : ℕ) : Type 0 where
    pub fits : k ≤ length j
    pub set : ℕ
    pub strong : Strong n vote set
    pub held : (m : ℕ) → m < n → has set m ≡ true → Begins (take k j) (J m)

  pub record Held (J : Journals) (j : List Entry) (k : ℕ) (ps : List Peer) : Type 0 where
    pub peers : n ≤ length ps
    pub known : (m : ℕ) → Shared j (J m) (known_of ps m)
    pub firm : Firm J j k

  abbrev pub Holds : Journals → Core → Type 0
  Holds J m = Held J m.journal m.firm m.peers

  pub held_grow : {J J' : Journals} {j j' : List Entry} {k : ℕ} {ps : List Peer} → Grow J J' → Begins j j' → Held J j k ps → Held J' j' k ps
  held_grow {J} {J'} {j} {j'} {k} {ps} g p h = record {
    peers = h.peers;
    known = λ m. shared_grow (known_of ps m) p (g m) (h.known m);
    firm = record {
      fits = omega (arith, begins_length p, h.firm.fits);
      set = h.firm.set;
      strong = h.firm.strong;
      held = λ m l i. subst (λ z. Begins z (J' m)) (take_begins k p h.firm.fits) (begins_trans (h.firm.held m l i) (g m));
    };
  }

  pub settle_held : (J : Journals) (t : ℕ) (m : Core) → Laws n vote → J m.me ≡ m.journal → m.roll ≡ n → Formed n vote t 0 m.journal → Holds J m → Holds J (settle m)
  settle_held J t m laws own sized f h = record { peers = h.peers; known = h.known; firm = go (cases_lt m.firm k) }
    where
      k : ℕ
      k = known_to_all m

      strong : Strong n vote (view m)
      strong =
          subst (λ r. Strong n vote (newest_view (everyone r) m.journal)) (sym sized)
          (newest_strong n vote t 0 (everyone n) m.journal (everyone_below n, laws.all) f)

      fits : k ≤ length m.journal
      fits = least_start m.me (view m) 0 m.peers (length m.journal)

      held : (q : ℕ) → q < n → has (view m) q ≡ true → Begins (take k m.journal) (J q)
      held q l i = at (cases_eq q m.me)
        where
          at : (q ≡ m.me) ⊎ (q ≡ m.me → ⊥) → Begins (take k m.journal) (J q)
          at (inl e) = subst (Begins (take k m.journal)) (sym (ap J e ∙ own)) (begins_take k m.journal)
          at (inr ne) =
              let z : 0 + q ≡ q = omega arith in
              (shared_less k (known_of m.peers q)
              (least_under m.me (view m) 0 m.peers (length m.journal) q (omega (arith, h.peers, l))
              (subst (λ i. has (view m) i ≡ true) (sym z) i) (λ e. ne (sym z ∙ e)))
              (h.known q)).begins

      go : (m.firm < k) ⊎ (k ≤ m.firm) → Firm J m.journal (max m.firm k)
      go (inl l) = let e : k ≡ max m.firm k = omega arith in subst (Firm J m.journal) e (record { fits = fits; set = view m; strong = strong; held = held })
      go (inr l) = let e : m.firm ≡ max m.firm k = omega arith in subst (Firm J m.journal) e h.firm

-- a book that had the first k entries of a journal has the first k' of what the journal has become, once it is given those between
pub book_moved : {S : Type 0} (next : S → Note → S) (b₀ b : S) (j j' : List Entry) (k k' : ℕ) → b ≡ fed next b₀ (take k j) → Begins j j' → k ≤ length j → k ≤ k' →
    fed next b (take (k' - k) (drop k j')) ≡ fed next b₀ (take k' j')
book_moved next b₀ b j j' k k' had more fits l =
    let e : k + (k' - k) ≡ k' = omega arith in
    ap (fed next b) (sym (ap (λ i. drop k (take i j')) (sym e) ∙ drop-take k (k' - k) j')) ∙
    (ap (λ z. fed next z (drop k (take k' j'))) (had ∙ ap (fed next b₀) (take_begins k more fits ∙ sym (take-take k k' j' l))) ∙
    (sym (feed_append next b₀ (take k (take k' j')) (drop k (take k' j'))) ∙ ap (fed next b₀) (take-append-drop k (take k' j'))))
