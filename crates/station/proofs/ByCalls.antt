-- Opening, saying until none is due, and passing come to the whole turn. Assumes nothing.
use Rattle.std.proofs.Common.{◌≡◌, ℕ, zero, suc, ◌-◌, ◌≤◌, Bool, true, false, cond, ◌&&◌, eqb, ltb, leb, List, [], ◌∷◌, ◌++◌, length, get_or, Some, None, Option, sym, refl, ap, ◌∙◌, append_assoc, arith}
use Rattle.std.proofs.lemmas.List.{length_push, get_or-append_right, append-nil}
use Rattle.std.proofs.lemmas.Bool.{cond_both, cond-true, cond-false, and_from, eq-eqb, le-leb, lt-ltb, both_ways}
use Rattle.protocol.specs.Limits.{note_room, journal_places, notes_per_turn}
use Rattle.protocol.specs.declared.note.Note.{Note}
use Rattle.protocol.specs.declared.entry.Body.{Body}
use Rattle.protocol.specs.declared.entry.Body.TheVariants as body
use Rattle.protocol.specs.declared.entry.Entry.{Entry}
use Rattle.protocol.specs.declared.frame.Frame.{Frame}
use Rattle.journal.specs.declared.state.State.{State}
use Rattle.journal.specs.declared.state.State.TheVariants.{Running, Joining, Out}
use Rattle.journal.specs.Journal.{last_turn}
use Rattle.journal.specs.declared.state.Cause.{Cause}
use Rattle.journal.specs.declared.state.Cause.TheVariants.{Full, Outvoted}
use Rattle.vote.specs.Mask.{adding, removing}
use Rattle.journal.specs.Core.{Core, with_state, is_running}
use Rattle.journal.specs.Settle.{view}
use Rattle.journal.proofs.Turns.{turn_some}
use Rattle.turning.specs.Posts.{Posting, after, next_entry, say_body}
use Rattle.turning.specs.Steps.{Spoken, after_spoken, gone_of, put_off, lets_in, chosen, serve, say_notes, pass_running}
use Rattle.turning.specs.Calls.{token, is_own, may_say, open_wish, open_on, open_turn, say_next, pass_as, pass_turn}
use Rattle.turning.specs.Whole.{Sayings, after_sayings, say_all, passed, said_and_passed, turn_by_calls, serve_or_say, then_pass, turn_as, whole_turn}

-- the last turn after one more entry is that entry's
pub last_push : (j : List Entry) (e : Entry) → last_turn (j ++ e ∷ []) ≡ e.turn
last_push j e =
    let n = length_push j e in
    let z : length (j ++ e ∷ []) - 1 ≡ length j = omega arith in
    let y : length j - length j ≡ 0 = omega arith in
    sym (turn_some (j ++ e ∷ []) (length (j ++ e ∷ [])) e (omega arith) (omega arith))
    ∙ ap (λ (i : ℕ). (get_or (j ++ e ∷ []) i e).turn) z
    ∙ ap (λ (x : Entry). x.turn) (get_or-append_right j (e ∷ []) (length j) (length j) e refl (omega arith))
    ∙ ap (λ (i : ℕ). (get_or (e ∷ []) i e).turn) y

-- what holds of a station with which the token goes on
record Speaks (s t : ℕ) (m : Core) : Type 0 where
  me : s ≡ m.me
  young : last_turn m.journal ≤ t
  runs : m.state ≡ Running

module _ (s t : ℕ) where
  own : (j : ℕ) (m : Core) → s ≡ m.me → last_turn m.journal ≤ t → is_own (token s t j) m ≡ true
  own j m e young = and_from (eqb s m.me) (leb (last_turn m.journal) t) (eq-eqb s m.me e) (le-leb _ _ young)

  passes : (j : ℕ) (m : Core) → s ≡ m.me → last_turn m.journal ≤ t → pass_turn (token s t j) m ≡ pass_as m.state m
  unfolding pass_turn
  passes j m e young = cond-true (is_own (token s t j) m) (pass_as m.state m) (m, []) (own j m e young)

  passes_running : (j : ℕ) (m : Core) → Speaks s t m → pass_turn (token s t j) m ≡ pass_running m
  passes_running j m h = passes j m h.me h.young ∙ ap (λ (q : State). pass_as q m) h.runs

  may : (j : ℕ) (m : Core) → Speaks s t m → may_say (token s t (suc j)) m ≡ ltb (length m.journal) note_room
  may j m h =
      ap (λ (b : Bool). b && (is_own (token s t (suc j)) m && (ltb 0 (suc j) && ltb (length m.journal) note_room))) (ap is_running h.runs)
      ∙ ap (λ (b : Bool). b && (ltb 0 (suc j) && ltb (length m.journal) note_room)) (own (suc j) m h.me h.young)
      ∙ ap (λ (b : Bool). b && ltb (length m.journal) note_room) (lt-ltb 0 (suc j) (omega arith))

  next_none : (j : ℕ) (m : Core) → say_next (token s t j) [] m ≡ ((token s t j, false), ([], (m, [])))
  unfolding say_next
  next_none j m = cond_both (may_say (token s t j) m) _ _ (λ q. q ≡ ((token s t j, false), ([], (m, [])))) (λ _. refl) (λ _. refl)

  next_no : (j : ℕ) (x : Note) (ns : List Note) (m : Core) → Speaks s t m → ltb (length m.journal) note_room ≡ false
      → say_next (token s t (suc j)) (x ∷ ns) m ≡ ((token s t (suc j), false), (x ∷ ns, (m, [])))
  unfolding say_next
  next_no j x ns m h e = cond-false (may_say (token s t (suc j)) m) _ _ (may j m h ∙ e)

  next_one : (j : ℕ) (x : Note) (ns : List Note) (m : Core) → Speaks s t m → ltb (length m.journal) note_room ≡ true
      → say_next (token s t (suc j)) (x ∷ ns) m ≡ ((token s t j, true), (ns, say_body t (body.Note x) m))
  unfolding say_next
  next_one j x ns m h e =
      let z : suc j - 1 ≡ j = omega arith in
      cond-true (may_say (token s t (suc j)) m) _ _ (may j m h ∙ e)
      ∙ ap (λ (i : ℕ). ((token s t i, true), (ns, say_body t (body.Note x) m))) z

  speaks_on : (b : Body) (m : Core) → Speaks s t m → Speaks s t (say_body t b m).0
  speaks_on b m h = record { me = h.me; young = omega (arith, last_push m.journal (next_entry t b m.journal)); runs = h.runs }

  speaks_served : (k p : ℕ) (m : Core) → Speaks s t m → Speaks s t (serve t k p m).0
  unfolding serve
  speaks_served k p m h =
      cond_both (lets_in (length m.journal) p) _ _ (λ (q : Posting). Speaks s t q.0) (λ _. speaks_on (body.View (adding (view m) k)) m h) (λ _. h)

  all_done : (j : ℕ) (ns : List Note) (m : Core) → say_next (token s t (suc j)) ns m ≡ ((token s t (suc j), false), (ns, (m, [])))
      → say_all (suc j) (token s t (suc j)) ns m ≡ (token s t (suc j), (ns, (m, [])))
  unfolding say_all
  all_done j ns m e = rw e

  all_one : (j : ℕ) (x : Note) (ns : List Note) (m : Core) → say_next (token s t (suc j)) (x ∷ ns) m ≡ ((token s t j, true), (ns, say_body t (body.Note x) m))
      → say_all (suc j) (token s t (suc j)) (x ∷ ns) m ≡ after_sayings (say_body t (body.Note x) m).1 (say_all j (token s t j) ns (say_body t (body.Note x) m).0)
  unfolding say_all
  all_one j x ns m e = rw e

  notes_none : (j : ℕ) (m : Core) → say_notes (suc j) t [] m ≡ ([], (m, []))
  unfolding say_notes
  notes_none j m = refl

  notes_zero : (ns : List Note) (m : Core) → say_notes 0 t ns m ≡ (ns, (m, []))
  unfolding say_notes
  notes_zero ns m = refl

  notes_no : (j : ℕ) (x : Note) (ns : List Note) (m : Core) → ltb (length m.journal) note_room ≡ false → say_notes (suc j) t (x ∷ ns) m ≡ (x ∷ ns, (m, []))
  unfolding say_notes
  notes_no j x ns m e = cond-false (ltb (length m.journal) note_room) _ _ e

  notes_one : (j : ℕ) (x : Note) (ns : List Note) (m : Core) → ltb (length m.journal) note_room ≡ true
      → say_notes (suc j) t (x ∷ ns) m ≡ after_spoken (say_body t (body.Note x) m).1 (say_notes j t ns (say_body t (body.Note x) m).0)
  unfolding say_notes
  notes_one j x ns m e = cond-true (ltb (length m.journal) note_room) _ _ e

  -- nothing more is said
  stop_here : (j : ℕ) (ns : List Note) (m : Core) → Speaks s t m → passed (token s t j, (ns, (m, []))) ≡ then_pass (ns, (m, []))
  stop_here j ns m h = ap (λ (q : Posting). (ns, after [] q)) (passes_running j m h)

  all_zero : (ns : List Note) (m : Core) → say_all 0 (token s t 0) ns m ≡ (token s t 0, (ns, (m, [])))
  unfolding say_all
  all_zero ns m = refl

  by_notes : (j : ℕ) (ns : List Note) (m : Core) → Speaks s t m → passed (say_all j (token s t j) ns m) ≡ then_pass (say_notes j t ns m)
  by_notes zero ns m h = ap passed (all_zero ns m) ∙ stop_here 0 ns m h ∙ sym (ap then_pass (notes_zero ns m))
  by_notes (suc j) [] m h = ap passed (all_done j [] m (next_none (suc j) m)) ∙ stop_here (suc j) [] m h ∙ sym (ap then_pass (notes_none j m))
  by_notes (suc j) (x ∷ ns) m h = go (ltb (length m.journal) note_room) refl (by_notes j ns (say_body t (body.Note x) m).0 (speaks_on (body.Note x) m h))
    where
      go : (b : Bool) → ltb (length m.journal) note_room ≡ b
          → passed (say_all j (token s t j) ns (say_body t (body.Note x) m).0) ≡ then_pass (say_notes j t ns (say_body t (body.Note x) m).0)
          → passed (say_all (suc j) (token s t (suc j)) (x ∷ ns) m) ≡ then_pass (say_notes (suc j) t (x ∷ ns) m)
      go false e ih = ap passed (all_done j (x ∷ ns) m (next_no j x ns m h e)) ∙ stop_here (suc j) (x ∷ ns) m h ∙ sym (ap then_pass (notes_no j x ns m e))
      go true e ih =
          let m' = (say_body t (body.Note x) m).0 in
          let fs = (say_body t (body.Note x) m).1 in
          let r = say_all j (token s t j) ns m' in
          let n = say_notes j t ns m' in
          ap passed (all_one j x ns m (next_one j x ns m h e))
          ∙ ap (λ (l : List Frame). (r.1.0, ((pass_turn r.0 r.1.1.0).0, l))) (append_assoc fs r.1.1.1 (pass_turn r.0 r.1.1.0).1)
          ∙ ap (after_spoken fs) ih
          ∙ ap (λ (l : List Frame). (n.0, ((pass_running n.1.0).0, l))) (sym (append_assoc fs n.1.1 (pass_running n.1.0).1))
          ∙ sym (ap then_pass (notes_one j x ns m e))

-- what step 1 keeps: a station that it puts out posts nothing more
record Off (t : ℕ) (m x : Core) : Type 0 where
  me : m.me ≡ x.me
  young : last_turn m.journal ≤ t → last_turn x.journal ≤ t
  quiet : m.state ≡ Running → is_running x.state ≡ false → pass_as x.state x ≡ (x, [])
  runs : is_running x.state ≡ true → m.state ≡ Running → x.state ≡ Running

off_put_off : (vote : ℕ → Bool) (t : ℕ) (m : Core) → Off t m (put_off vote t m).0
unfolding put_off
off_put_off vote t m =
    let P : Posting → Type 0 = λ q. Off t m q.0 in
    cond_both (eqb (gone_of m) 0) _ _ P (λ _. stays)
    (λ _. cond_both (vote (removing (view m) (gone_of m))) _ _ P
    (λ _. cond_both (ltb (length m.journal) journal_places) _ _ P (λ _. says) (λ _. out Full))
    (λ _. out Outvoted))
  where
    clash : (q : State) → q ≡ Running → is_running q ≡ false → ⊥
    clash q e f = both_ways (is_running q) f (ap is_running e)

    stays : Off t m m
    stays = record { me = refl; young = λ h. h; quiet = λ e f. absurd (clash m.state e f); runs = λ _ e. e }

    says : Off t m (say_body t (body.View (removing (view m) (gone_of m))) m).0
    says = record {
      me = refl;
      young = λ h. omega (arith, last_push m.journal (next_entry t (body.View (removing (view m) (gone_of m))) m.journal));
      quiet = λ e f. absurd (clash m.state e f);
      runs = λ _ e. e;
    }

    out : (c : Cause) → Off t m (with_state (Out c) m)
    out c = record { me = refl; young = λ h. h; quiet = λ _ _. refl; runs = λ f _. absurd (both_ways (is_running (Out c)) refl f) }

module _ (vote : ℕ → Bool) (t : ℕ) (ns : List Note) (m : Core) (young : last_turn m.journal ≤ t) where
  -- the rest of the calls, after what was done in opening
  abbrev calls : ℕ × Posting → Spoken
  calls o = said_and_passed (token m.me t o.0) ns o.1

  -- with no note left to say
  silent : (q : Posting) → calls (0, q) ≡ (ns, ((pass_turn (token m.me t 0) q.0).0, q.1 ++ (pass_turn (token m.me t 0) q.0).1))
  silent q = ap (λ (r : Sayings). after_spoken q.1 (passed r)) (all_zero m.me t ns q.0)

  wished : (o : Option (ℕ × ℕ)) (q : Posting) → Speaks m.me t q.0
      → calls (open_wish t o q) ≡ after_spoken q.1 (then_pass (serve_or_say t o ns q.0))
  wished None q h = ap (after_spoken q.1) (by_notes m.me t notes_per_turn ns q.0 h)
  wished (Some w) q h =
      let v = serve t w.0 w.1 q.0 in
      silent (after q.1 v)
      ∙ ap (λ (p : Posting). (ns, (p.0, (q.1 ++ v.1) ++ p.1))) (passes_running m.me t 0 v.0 (speaks_served m.me t w.0 w.1 q.0 h))
      ∙ ap (λ (l : List Frame). (ns, ((pass_running v.0).0, l))) (append_assoc q.1 v.1 (pass_running v.0).1)

  went_on : (q : Posting) → Off t m q.0 → m.state ≡ Running → (b : Bool) → is_running q.0.state ≡ b
      → calls (cond b (open_wish t (chosen q.0) q) (0, q)) ≡ cond b (after_spoken q.1 (then_pass (serve_or_say t (chosen q.0) ns q.0))) (ns, q)
  went_on q h run true e = wished (chosen q.0) q (record { me = h.me; young = h.young young; runs = h.runs e run })
  went_on q h run false e =
      silent q
      ∙ ap (λ (p : Posting). (ns, (p.0, q.1 ++ p.1))) (passes m.me t 0 q.0 h.me (h.young young) ∙ h.quiet run e)
      ∙ ap (λ (l : List Frame). (ns, (q.0, l))) (append-nil q.1)

  by_state : (s : State) → m.state ≡ s → calls (cond (is_running s) (open_on t (put_off vote t m)) (0, (m, []))) ≡ turn_as s vote t ns m
  by_state Running e = went_on (put_off vote t m) (off_put_off vote t m) e (is_running (put_off vote t m).0.state) refl
  by_state Joining e = silent (m, []) ∙ ap (λ (p : Posting). (ns, p)) (passes m.me t 0 m refl young ∙ ap (λ (q : State). pass_as q m) e)
  by_state (Out c) e = silent (m, []) ∙ ap (λ (p : Posting). (ns, p)) (passes m.me t 0 m refl young ∙ ap (λ (q : State). pass_as q m) e)

  pub by_calls : turn_by_calls vote t ns m ≡ whole_turn vote t ns m
  unfolding turn_by_calls open_turn whole_turn
  by_calls = by_state m.state refl
