-- What a station with its memory means. Assumes nothing.
use Rattle.std.specs.Prelude.{◌≡◌, OnErr, Result}
use Rattle.protocol.specs.declared.refusal.Refusal.{Refusal}
use Rattle.journal.specs.Core.{Core}
use Rattle.journal.specs.Members.{member_core}
use Rattle.turning.specs.Calls.{waiting}
use Rattle.station.specs.declared.station.Station.{Station}
use Rattle.station.specs.Model.{Model}

abbrev pub core : {B : Type 0} → Station B → Core
core s = member_core s.member

abbrev pub model : {B S : Type 0} → (B → S) → Station B → Model S
model means s = record { core = core s; outbox = waiting s.outbox; book = means s.book }

-- all memory of a station is as it was
pub record Unchanged {B : Type 0} (x y : Station B) : Type 0 where
  pub member : y.member ≡ x.member
  pub outbox : y.outbox ≡ x.outbox
  pub book : y.book ≡ x.book

-- a call on station x was answered so and made y of it, as a rule says: q is the answer and what the station means then;
-- a refusal leaves all memory as it was
pub record Answered {B S A : Type 0} (means : B → S) (q : Result A Refusal × Model S) (x : Station B) (given : Result A Refusal) (y : Station B) : Type 0 where
  pub value : given ≡ q.0
  pub after : model means y ≡ q.1
  pub same : OnErr given (Unchanged x y)
