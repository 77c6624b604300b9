-- A station is what it keeps: the facts beside it make no difference. Assumes nothing.
use Rattle.std.proofs.Common.{◌≡◌, true}
use mathlib.Core.Bool.{Bool-set}
use mathlib.Core.HLevel.{is_prop→PathP}
use Rattle.journal.specs.Members.{member_core}
use Rattle.station.specs.declared.station.Station.{Station}
use Rattle.station.specs.Meaning.{Unchanged}
use Rattle.station.specs.Sound.{is_sound}

-- a station whose memory is as it was is the same station
pub same_station : {B : Type 0} (x y : Station B) → Unchanged x y → y ≡ x
same_station x y u i = record {
  member = u.member i;
  outbox = u.outbox i;
  book = u.book i;
  sound = is_prop→PathP (λ k. is_sound (member_core (u.member k)) ≡ true) (λ k. Bool-set _ _) y.sound x.sound i;
}
