-- The journals of all stations together: an end (length and last turn) tells all before it.
use Rattle.std.proofs.Common.{◌≡◌, ℕ, suc, ◌<◌, ◌≤◌, Bool, ◌⊎◌, List, ◌++◌, length, sym, ap, ◌∙◌, subst, inl, inr, arith}
use Rattle.std.proofs.lemmas.Bool.{cases_eq}
use Rattle.protocol.specs.declared.entry.Entry.{Entry}
use Rattle.runs.proofs.Fronts.{begins_same, begins_self, begins_trans}
use Rattle.runs.proofs.Formed.{Formed, formed_append, formed_front, formed_later, formed_last, OfTurn, begins_new}
use Rattle.runs.specs.Promises.{Begins}
use Rattle.runs.proofs.Ends.{last_of}

-- the journals by station
abbrev pub Journals : Type 0
Journals = ℕ → List Entry

pub record Part (J : Journals) (a : List Entry) : Type 0 where
  pub at : ℕ
  pub begins : Begins a (J at)

-- J' has j at station s, and is J elsewhere
pub record Puts (J J' : Journals) (s : ℕ) (j : List Entry) : Type 0 where
  pub here : J' s ≡ j
  pub apart : (m : ℕ) → (m ≡ s → ⊥) → J' m ≡ J m

abbrev pub Grow : Journals → Journals → Type 0
Grow J J' = (m : ℕ) → Begins (J m) (J' m)

module _ (J J' : Journals) (s : ℕ) (j : List Entry) (puts : Puts J J' s j) where
  pub puts_grow : Begins (J s) j → Grow J J'
  puts_grow b m = go (cases_eq m s)
    where
      go : (m ≡ s) ⊎ (m ≡ s → ⊥) → Begins (J m) (J' m)
      go (inl e) = subst (λ z. Begins (J z) (J' z)) (sym e) (subst (Begins (J s)) (sym puts.here) b)
      go (inr e) = subst (Begins (J m)) (sym (puts.apart m e)) (begins_self (J m))

  pub part_of : (a : List Entry) → Part J' a → Part J a ⊎ Begins a j
  part_of a p = go (cases_eq p.at s)
    where
      go : (p.at ≡ s) ⊎ (p.at ≡ s → ⊥) → Part J a ⊎ Begins a j
      go (inl e) = inr (subst (Begins a) (ap J' e ∙ puts.here) p.begins)
      go (inr e) = inl (record { at = p.at; begins = subst (Begins a) (puts.apart p.at e) p.begins })

  pub each_of : (P : List Entry → Type 0) → ((m : ℕ) → P (J m)) → P j → (m : ℕ) → P (J' m)
  each_of P h g m = go (cases_eq m s)
    where
      go : (m ≡ s) ⊎ (m ≡ s → ⊥) → P (J' m)
      go (inl e) = subst P (sym (ap J' e ∙ puts.here)) g
      go (inr e) = subst P (sym (puts.apart m e)) (h m)

module _ (n : ℕ) (vote : ℕ → Bool) where
  pub record World (J : Journals) (t : ℕ) : Type 0 where
    pub formed : (s : ℕ) → Formed n vote t 0 (J s)
    pub alike : (a b : List Entry) → Part J a → Part J b → length a ≡ length b → last_of a ≡ last_of b → a ≡ b

  -- a station takes over what another has
  pub world_copy : (J J' : Journals) (s t : ℕ) (j : List Entry) → Puts J J' s j → World J t → Part J j → World J' t
  world_copy J J' s t j puts w p = record {
    formed = each_of J J' s j puts (Formed n vote t 0) w.formed (formed_front n vote t 0 j (J p.at) p.begins (w.formed p.at));
    alike = λ a b pa pb. w.alike a b (old a pa) (old b pb);
  }
    where
      old : (a : List Entry) → Part J' a → Part J a
      old a pa = go (part_of J J' s j puts a pa)
        where
          go : Part J a ⊎ Begins a j → Part J a
          go (inl q) = q
          go (inr q) = record { at = p.at; begins = begins_trans q p.begins }

  -- the owner of turn t appends entries of that turn
  pub world_new : (J J' : Journals) (s t : ℕ) (es : List Entry) → Puts J J' s (J s ++ es) → World J t → 1 ≤ t →
      OfTurn t es → Formed n vote (suc t) (length (J s)) es → World J' (suc t)
  world_new J J' s t es puts w early of_turn f = record {
    formed =
        each_of J J' s (J s ++ es) puts (Formed n vote (suc t) 0)
        (λ m. formed_later n vote t (suc t) 0 (omega arith) (J m) (w.formed m))
        (formed_append n vote (suc t) 0 (J s) es
        (formed_later n vote t (suc t) 0 (omega arith) (J s) (w.formed s))
        (subst (λ z. Formed n vote (suc t) z es) (omega arith) f));
    alike = λ a b pa pb l e. both a b (sort a pa) (sort b pb) l e;
  }
    where
      sort : (a : List Entry) → Part J' a → Part J a ⊎ (Begins a (J s ++ es) × (last_of a ≡ t))
      sort a pa = go (part_of J J' s (J s ++ es) puts a pa)
        where
          new : Begins a (J s ++ es) → Begins a (J s) ⊎ (last_of a ≡ t) → Part J a ⊎ (Begins a (J s ++ es) × (last_of a ≡ t))
          new q (inl o) = inl (record { at = s; begins = o })
          new q (inr e) = inr (q, e)

          go : Part J a ⊎ Begins a (J s ++ es) → Part J a ⊎ (Begins a (J s ++ es) × (last_of a ≡ t))
          go (inl q) = inl q
          go (inr q) = new q (begins_new t a (J s) es of_turn q)

      past : (a : List Entry) → Part J a → last_of a < t
      past a p = formed_last n vote t 0 0 a (omega arith) (formed_front n vote t 0 a (J p.at) p.begins (w.formed p.at))

      both : (a b : List Entry) → Part J a ⊎ (Begins a (J s ++ es) × (last_of a ≡ t)) → Part J b ⊎ (Begins b (J s ++ es) × (last_of b ≡ t)) →
          length a ≡ length b → last_of a ≡ last_of b → a ≡ b
      both a b (inl p) (inl q) l e = w.alike a b p q l e
      both a b (inl p) (inr q) l e = absurd (omega (arith, past a p, q.1, e))
      both a b (inr p) (inl q) l e = absurd (omega (arith, past b q, p.1, e))
      both a b (inr p) (inr q) l e = begins_same p.0 q.0 l
