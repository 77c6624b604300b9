-- The claim book: what a note asks, which verdict it gets and what the book holds then. Assumes nothing.
use Rattle.std.specs.Prelude.{◌≡◌, ℕ, ◌<◌, Bool, true, false, cond, ◌&&◌, List, replicate, find, count_by, is_some, Some, None, Option, ◌==◌, ◌≢◌, nat_lt, slice_index_or, slice_set, Result}
use Rattle.std.specs.Result.{result_ok}
use Rattle.std.specs.List.{position_or_len}
use Rattle.std.specs.Option.{option_flatten}
use Rattle.protocol.specs.Limits.{max_stations}
use Rattle.protocol.specs.declared.note.Note.{Note}
use Rattle.books.specs.Limits.{is_number}
use Rattle.books.specs.declared.book.MalformedNote.{MalformedNote}
use Rattle.books.specs.Places.{any_where, at_place}
use Rattle.claims.specs.Limits.{claim_places}
use Rattle.claims.specs.declared.claim.Claim.{Claim}
use Rattle.claims.specs.declared.claim.ClaimAct.{ClaimAct}
use Rattle.claims.specs.declared.claim.ClaimAct.TheVariants.{Make, Release}
use Rattle.claims.specs.declared.claim_verdict.ClaimVerdict.{ClaimVerdict}
use Rattle.claims.specs.declared.claim_verdict.ClaimVerdict.TheVariants.{Taken, Malformed, AlreadyClaimed, NoPlace, NotClaimed}

-- the number of each verdict
abbrev pub claim_verdict_number : ClaimVerdict → ℕ
claim_verdict_number Taken = 0
claim_verdict_number Malformed = 1
claim_verdict_number AlreadyClaimed = 2
claim_verdict_number NoPlace = 3
claim_verdict_number NotClaimed = 4

-- ---- what a note asks

-- a = 1 claims file b for station c, and a = 2 releases it, with d = 0: nothing if the note is malformed
abbrev pub act_of : ℕ → Claim → Option ClaimAct
act_of a m = cond (a == 1) (Some (Make m)) (cond (a == 2) (Some (Release m)) None)

abbrev pub claim_act : Note → Option ClaimAct
claim_act x = cond (is_number x.b && (nat_lt x.c max_stations && x.d == 0)) (act_of x.a (record { file = x.b; station = x.c })) None

-- what reading the note as an act gives: an error if it is malformed
abbrev pub Asks : Note → Result ClaimAct MalformedNote → Type 0
Asks x r = result_ok r ≡ claim_act x

-- ---- what the book holds: a table of places, each free or with a claim

abbrev pub Places : Type 0
Places = List (Option Claim)

abbrev pub empty_places : Places
empty_places = replicate claim_places None

abbrev pub is_claimed : Option Claim → Bool
is_claimed place = is_some place

abbrev pub is_free : Option Claim → Bool
is_free None = true
is_free (Some _) = false

abbrev pub holds_file : ℕ → Option Claim → Bool
holds_file f None = false
holds_file f (Some m) = m.file == f

-- the place holds that file's claim by that station
abbrev pub holds_claim : Claim → Option Claim → Bool
holds_claim m None = false
holds_claim m (Some held) = held.file == m.file && held.station == m.station

abbrev pub claim_of : ℕ → Places → Option Claim
claim_of f s = option_flatten (find (holds_file f) s)

abbrev pub claim_at : ℕ → Places → Option Claim
claim_at p s = option_flatten (at_place p s)

abbrev pub claim_count : Places → ℕ
claim_count s = count_by is_claimed s

-- ---- the verdict

abbrev pub making_verdict : Claim → Places → ClaimVerdict
making_verdict m s = cond (any_where (holds_file m.file) s) AlreadyClaimed (cond (any_where is_free s) Taken NoPlace)

abbrev pub releasing_verdict : Claim → Places → ClaimVerdict
releasing_verdict m s = cond (any_where (holds_claim m) s) Taken NotClaimed

abbrev pub act_verdict : Option ClaimAct → Places → ClaimVerdict
act_verdict None s = Malformed
act_verdict (Some (Make m)) s = making_verdict m s
act_verdict (Some (Release m)) s = releasing_verdict m s

abbrev pub claim_verdict : Places → Note → ClaimVerdict
claim_verdict s x = act_verdict (claim_act x) s

-- ---- the next state

-- a claim goes to the first free place, and a release frees the claim's place
abbrev pub made : Claim → Places → Places
made m s = slice_set s (position_or_len is_free s) (Some m)

abbrev pub released : Claim → Places → Places
released m s = slice_set s (position_or_len (holds_claim m) s) None

abbrev pub act_next : Option ClaimAct → Places → Places
act_next None s = s
act_next (Some (Make m)) s = made m s
act_next (Some (Release m)) s = released m s

abbrev pub is_taken : ClaimVerdict → Bool
is_taken v = claim_verdict_number v == 0

abbrev pub claim_next : Places → Note → Places
claim_next s x = cond (is_taken (claim_verdict s x)) (act_next (claim_act x) s) s

-- both places hold claims of one file
abbrev pub same_file : Option Claim → Option Claim → Bool
same_file None place = false
same_file (Some m) place = holds_file m.file place

-- no file is claimed at two places
abbrev pub ClaimedOnce : Places → Type 0
ClaimedOnce s = (i j : ℕ) → i < j → same_file (slice_index_or s i None) (slice_index_or s j None) ≢ true
