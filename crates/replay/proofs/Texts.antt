-- What is printed so far and what is left make the whole.
use Rattle.std.proofs.Common.{◌≡◌, ℕ, suc, ◌+◌, ◌-◌, ◌<◌, List, [], ◌∷◌, ◌++◌, length, get_or, drop, Ok, Err, Result, sym, refl, ap, ◌∙◌, append_assoc, append-nil, arith}
use Rattle.std.specs.List.{slice_get}
use Rattle.std.proofs.lemmas.List.{at_drop_more}
use Rattle.protocol.specs.declared.refusal.Refusal.{Refusal}
use Rattle.entries.specs.declared.customs_entry.CustomsEntry.{CustomsEntry}
use Rattle.runs.specs.declared.call.Call.{Call}
use Rattle.runs.specs.Rings.{Ring, run, answers, new_ring}
use Rattle.replay.specs.Print.{Stationed, answer_text, calls_among, answers_text, station_text, stations_text, by_heads, performed_text}
use Rattle.replay.specs.Parts.{answer_to, left_after}

-- a text that grows by the front p of what is left
pub grow : {A : Type 0} (items after p rest left whole : List A) → left ≡ p ++ rest → after ≡ items ++ p → items ++ left ≡ whole → after ++ rest ≡ whole
grow items after p rest left whole el ea inv =
    ap (λ (x : List _). x ++ rest) ea ∙ append_assoc items p rest ∙ ap (λ (x : List _). items ++ x) (sym el) ∙ inv

-- ---- the lines of a script

-- the first line, and then the others
answers_more : (n : ℕ) (d : Result Call Refusal) (ls : List (Result Call Refusal)) (given : List ℕ)
    → answers_text n (d ∷ ls) given ≡ answer_text n (answer_to d given) ++ answers_text (suc n) ls (left_after d given)
answers_more n (Ok c) ls given = refl
answers_more n (Err e) ls given = refl

-- what line i is answered by is added
pub line_added : (lines : List (Result Call Refusal)) (i number : ℕ) (given left items after whole : List ℕ) (d : Result Call Refusal) → i < length lines
    → number ≡ answer_to (get_or lines i d) given → left ≡ left_after (get_or lines i d) given → after ≡ items ++ answer_text (2 + i) number
    → items ++ answers_text (2 + i) (drop i lines) given ≡ whole → after ++ answers_text (2 + (i + 1)) (drop (i + 1) lines) left ≡ whole
line_added lines i number given left items after whole d lt en el ea inv =
    let next : suc (2 + i) ≡ 2 + (i + 1) = omega arith in
    let here = at_drop_more (λ (ls : List (Result Call Refusal)). answers_text (2 + i) ls given) lines i d lt in
    let more = answers_more (2 + i) (get_or lines i d) (drop (i + 1) lines) given in
    grow items after (answer_text (2 + i) number) (answers_text (2 + (i + 1)) (drop (i + 1) lines) left) (answers_text (2 + i) (drop i lines) given) whole (cc) ea inv

-- ---- stations

pub station_more : (xs : List Stationed) (s n : ℕ) → s < n
    → stations_text xs s (n - s) ≡ station_text s (slice_get xs s) ++ stations_text xs (s + 1) (n - (s + 1))
station_more xs s n lt =
    let e : n - s ≡ suc (n - (s + 1)) = omega arith in
    let k : suc s ≡ s + 1 = omega arith in
    ap (stations_text xs s) e ∙ ap (λ (m : ℕ). station_text s (slice_get xs s) ++ stations_text xs m (n - (s + 1))) k

-- ---- the whole print

pub whole_print : (n k q : ℕ) (ls lines : List (Result Call Refusal)) (calls : List Call) (b : List CustomsEntry) (m : Ring (List CustomsEntry)) (given : List ℕ)
    → k ≡ n → q ≡ n → lines ≡ ls → calls ≡ calls_among ls → b ≡ [] → m ≡ run (by_heads k) (new_ring (by_heads k) b) calls → given ≡ answers (by_heads k) (new_ring (by_heads k) b) calls
    → answers_text 2 lines given ++ stations_text m.stations 0 q ≡ performed_text n ls
whole_print n k q ls lines calls b m given ek eq el ec eb em eg = cc
