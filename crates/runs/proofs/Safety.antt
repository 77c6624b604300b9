-- Firm parts agree and journals match, in every run.
use Rattle.std.proofs.Common.{◌≡◌, ℕ, suc, ◌<◌, ◌≤◌, ◌⊎◌, [], ◌∷◌, ◌++◌, length, take, Some, sym, ap, ◌∙◌, subst, inl, inr, arith}
use Rattle.std.specs.List.{slice_get}
use Rattle.std.proofs.lemmas.Bool.{cases_lt}
use Rattle.std.proofs.lemmas.List.{same_from_push, length-take-le}
use Rattle.protocol.specs.declared.entry.Entry.{Entry}
use Rattle.runs.proofs.Fronts.{begins_take, begins_under, begins_same}
use Rattle.runs.proofs.Formed.{formed_at, formed_front, last_append}
use Rattle.runs.proofs.Worlds.{Part}
use Rattle.runs.proofs.Lookup.{nth_below, all_nth, take_nth}
use Rattle.vote.specs.Mask.{Share}
use Rattle.journal.specs.Settle.{fed}
use Rattle.station.specs.Model.{Model, firm_part}
use Rattle.runs.specs.Rings.{Rules, Ring}
use Rattle.runs.specs.Promises.{Begins, Laws, Is, FirmPartsAgree, JournalsMatch}
use Rattle.runs.proofs.Ends.{last_of}
use Rattle.runs.proofs.Held.{Firm}
use Rattle.runs.proofs.Soundness.{journals, journal_at, Booked, Sound, here_holds}

module _ {S : Type 0} (R : Rules S) (b₀ : S) (laws : Laws R.size R.vote) (r : Ring S) (h : Sound R b₀ r) where
  pub agreed : FirmPartsAgree r
  agreed s m x y p q = record { begins = begins (cases_lt (length (firm_part y.core)) (length (firm_part x.core))); books = books }
    where
      fx : Firm R.size R.vote (journals r.stations) x.core.journal x.core.firm
      fx = (here_holds R b₀ r s x h p).firm

      fy : Firm R.size R.vote (journals r.stations) y.core.journal y.core.firm
      fy = (here_holds R b₀ r m y h q).firm

      common : Share R.size fx.set fy.set
      common = laws.shares fx.set fy.set fx.strong.0 fy.strong.0 fx.strong.1 fy.strong.1

      bx : Begins (firm_part x.core) (journals r.stations common.0)
      bx = fx.held common.0 common.1 common.2

      by : Begins (firm_part y.core) (journals r.stations common.0)
      by = fy.held common.0 common.1 common.3

      begins : (length (firm_part y.core) < length (firm_part x.core)) ⊎ (length (firm_part x.core) ≤ length (firm_part y.core)) →
          Begins (firm_part x.core) (firm_part y.core) ⊎ Begins (firm_part y.core) (firm_part x.core)
      begins (inl l) = inr (begins_under by bx (omega arith))
      begins (inr l) = inl (begins_under bx by l)

      books : length (firm_part x.core) ≡ length (firm_part y.core) → x.book ≡ y.book
      books l = all_nth (Booked R b₀) r.stations s x h.books p ∙ (ap (fed R.next b₀) (begins_same bx by l) ∙ sym (all_nth (Booked R b₀) r.stations m y h.books q))

  pub matched : JournalsMatch r
  matched s m x y p q k e f a b t = (place, both.1, both.0)
    where
      part : (s : ℕ) (x : Model S) → Is r s x → Part (journals r.stations) (take (suc k) x.core.journal)
      part s x p = record { at = s; begins = subst (Begins (take (suc k) x.core.journal)) (sym (journal_at r.stations s x p)) (begins_take (suc k) x.core.journal) }

      last : (x : Model S) (e : Entry) → slice_get x.core.journal k ≡ Some e → last_of (take (suc k) x.core.journal) ≡ e.turn
      last x e a = ap last_of (take_nth x.core.journal k e a) ∙ last_append 0 (take k x.core.journal) (e ∷ [])

      long : (x : Model S) (e : Entry) → slice_get x.core.journal k ≡ Some e → length (take (suc k) x.core.journal) ≡ suc k
      long x e a = length-take-le (suc k) x.core.journal (omega (arith, nth_below x.core.journal k e a))

      same : take (suc k) x.core.journal ≡ take (suc k) y.core.journal
      same =
          h.world.alike (take (suc k) x.core.journal) (take (suc k) y.core.journal) (part s x p) (part m y q)
          (long x e a ∙ sym (long y f b)) (last x e a ∙ (t ∙ sym (last y f b)))

      both : (take k x.core.journal ≡ take k y.core.journal) × (e ≡ f)
      both = same_from_push (take k x.core.journal) (take k y.core.journal) e f (sym (take_nth x.core.journal k e a) ∙ (same ∙ take_nth y.core.journal k f b))

      place : e.place ≡ suc k
      place =
          let g = formed_at R.size R.vote r.turn 0 (take k x.core.journal) e []
          (formed_front R.size R.vote r.turn 0 (take k x.core.journal ++ e ∷ []) (journals r.stations s)
          (subst (λ z. Begins z (journals r.stations s)) (take_nth x.core.journal k e a) (part s x p).begins) (h.world.formed s)) in
          omega (arith, g.0, length-take-le k x.core.journal (omega (arith, nth_below x.core.journal k e a)))
