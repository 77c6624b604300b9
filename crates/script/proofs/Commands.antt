-- a line writes at most one command
use Rattle.std.proofs.Common.{◌≡◌, ℕ, List, [], ◌∷◌, ◌++◌, codes, decimal, MatchOption, Option, sym, refl, ap, ◌∙◌, append-nil, arith, rules}
use Rattle.protocol.specs.declared.note.Note.{Note as NoteT}
use Rattle.script.specs.Words.{Free}
use Rattle.script.specs.Commands.{written, written_call, Sized, SizedCall}
use Rattle.script.specs.Parts.{spelled, verb_of, call_arguments, key_of, value_of, arguments_of, Asks, Follows}
use Rattle.runs.specs.declared.call.Call.{Call}
use Rattle.runs.specs.declared.call.Call.TheVariants.{Note, Turn, Take, Lose, Stop, Enter}
use Rattle.script.specs.declared.command.Command.{Command}
use Rattle.script.specs.declared.command.Command.TheVariants.{Roll, Call as Calls}
use Rattle.script.specs.declared.verb.Verb.{Verb}
use Rattle.script.specs.declared.verb.Verb.TheVariants.{Note as NoteVerb}
use Rattle.script.proofs.Cuts.{same_cut}
use Rattle.script.proofs.Args.{free_decimal, same_word, peel, free_at, free_a, free_b, free_c, free_d}
use Rattle.script.proofs.Options.{on_each}
use Rattle.script.proofs.Decimal.{small}
use Rattle.std.proofs.lemmas.Fmt.{decimal_injective}

-- a call as it is written is its three parts
after : (front : List ℕ) (n : ℕ) → front ++ decimal n ≡ front ++ (decimal n ++ [])
after front n = ap (λ (x : List ℕ). front ++ x) (sym (append-nil (decimal n)))

call_parts : (c : Call) → written_call c ≡ codes "do" ++ (61 ∷ (spelled (verb_of c) ++ call_arguments c))
call_parts (Note s x) =
    ap (λ (t : List ℕ). codes "do=note at=" ++ (decimal s ++ (codes " a=" ++ (decimal x.a ++ (codes " b=" ++ (decimal x.b
    ++ (codes " c=" ++ (decimal x.c ++ (codes " d=" ++ t)))))))))
    (sym (append-nil (decimal x.d)))
call_parts Turn = refl
call_parts (Take s) = after (codes "do=take at=") s
call_parts (Lose s) = after (codes "do=lose at=") s
call_parts (Stop s) = after (codes "do=stop at=") s
call_parts (Enter s) = after (codes "do=enter at=") s

pub parts : (k : Command) → written k ≡ key_of k ++ (61 ∷ (value_of k ++ arguments_of k))
parts (Roll n) = after (codes "roll=") n
parts (Calls c) = call_parts c

free_key : (k : Command) → Free 61 (key_of k)
free_key (Roll n) = search rules
free_key k = search rules

free_verb : (v : Verb) → Free 32 (spelled v)
free_verb NoteVerb = search rules
free_verb v = search rules

free_value : (k : Command) → Sized k → Free 32 (value_of k)
free_value (Roll n) h = free_decimal n h
free_value (Calls c) h = free_verb (verb_of c)

follows_call : (c : Call) → Follows (call_arguments c)
follows_call Turn = tt
follows_call c = refl

follows_value : (k : Command) → Follows (arguments_of k)
follows_value (Roll n) = tt
follows_value (Calls c) = follows_call c

-- a line that is cut is written in these words
pub cut_so : (line key value t : List ℕ) → Free 61 key → Free 32 value → Follows t → line ≡ key ++ (61 ∷ (value ++ t))
    → (k : Command) → Sized k → line ≡ written k → Asks key value t k
cut_so line key value t fk fv ft cuts k h e =
    let c = same_cut 61 key (key_of k) (value ++ t) (value_of k ++ arguments_of k) fk (free_key k) (sym cuts ∙ e ∙ parts k) in
    let w = same_word value (value_of k) t (arguments_of k) fv (free_value k h) ft (follows_value k) c.1 in
    (c.0, w.0, w.1)

same_note : (x y : NoteT) → x.a ≡ y.a → x.b ≡ y.b → x.c ≡ y.c → x.d ≡ y.d → x ≡ y
same_note x y ea eb ec ed =
    let f : ℕ → ℕ → ℕ → ℕ → NoteT = λ a b c d. record { a = a; b = b; c = c; d = d } in
    ap (λ (z : ℕ). f z x.b x.c x.d) ea ∙ ap (λ (z : ℕ). f y.a z x.c x.d) eb ∙ ap (λ (z : ℕ). f y.a y.b z x.d) ec
    ∙ ap (λ (z : ℕ). f y.a y.b y.c z) ed

-- two calls that are written alike are one
same_call : (c k : Call) → SizedCall c → SizedCall k → spelled (verb_of c) ≡ spelled (verb_of k) → call_arguments c ≡ call_arguments k → c ≡ k
same_call (Note m0 m1) (Note n0 n1) hc hk f g =
    let at = peel (codes "at") m0 n0 _ _ free_at hc.0 hk.0 refl refl g in
    let first = peel (codes "a") m1.a n1.a _ _ free_a hc.1 hk.1 refl refl at.1 in
    let second = peel (codes "b") m1.b n1.b _ _ free_b hc.2 hk.2 refl refl first.1 in
    let third = peel (codes "c") m1.c n1.c _ _ free_c hc.3 hk.3 refl refl second.1 in
    let fourth = peel (codes "d") m1.d n1.d [] [] free_d hc.4 hk.4 tt tt third.1 in
    let e : m1 ≡ n1 = same_note m1 n1 first.0 second.0 third.0 fourth.0 in
    rw (at.0, e)
same_call Turn Turn hc hk f g = refl
same_call (Take m) (Take n) hc hk f g = ap Take (peel (codes "at") m n [] [] free_at hc hk tt tt g).0
same_call (Lose m) (Lose n) hc hk f g = ap Lose (peel (codes "at") m n [] [] free_at hc hk tt tt g).0
same_call (Stop m) (Stop n) hc hk f g = ap Stop (peel (codes "at") m n [] [] free_at hc hk tt tt g).0
same_call (Enter m) (Enter n) hc hk f g = ap Enter (peel (codes "at") m n [] [] free_at hc hk tt tt g).0
same_call c k hc hk f g = grind arith

alike : (c k : Command) → Sized c → Sized k → Asks (key_of c) (value_of c) (arguments_of c) k → c ≡ k
alike (Roll m) (Roll n) hc hk a = ap Roll (decimal_injective m n (small m hc) (small n hk) a.1)
alike (Calls c) (Calls d) hc hk a = ap Calls (same_call c d hc hk a.1 a.2)
alike c k hc hk a = grind arith

pub unique : (c k : Command) → Sized c → Sized k → written c ≡ written k → c ≡ k
unique c k hc hk e =
    alike c k hc hk (cut_so (written c) (key_of c) (value_of c) (arguments_of c) (free_key c) (free_value c hc) (follows_value c) (parts c) k hk e)

pub put_together : (line key value t : List ℕ) (k : Command) → line ≡ key ++ (61 ∷ (value ++ t)) → Asks key value t k → line ≡ written k
put_together line key value t k cuts a = cuts ∙ rw (a.0, a.1, a.2) (sym (parts k))

-- what a line that is cut asks for is the command that it is written as
pub asked_so : (line key value t : List ℕ) → Free 61 key → Free 32 value → Follows t → line ≡ key ++ (61 ∷ (value ++ t)) → (o : Option Command)
    → MatchOption o ((k : Command) → Sized k → Asks key value t k → ⊥) (λ k. Asks key value t k × Sized k)
    → MatchOption o ((k : Command) → Sized k → line ≡ written k → ⊥) (λ k. (line ≡ written k) × Sized k)
asked_so line key value t fk fv ft cuts o h =
    on_each o (λ none k s e. none k s (cut_so line key value t fk fv ft cuts k s e)) (λ k p. (put_together line key value t k cuts p.0, p.1)) h
