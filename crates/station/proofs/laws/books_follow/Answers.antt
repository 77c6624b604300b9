use Rattle.std.proofs.Common.{refl, arith}
use Rattle.journal.specs.declared.state.State.TheVariants.{Out}
use Rattle.journal.specs.declared.state.Cause.TheVariants.{Stopped}
use Rattle.turning.proofs.Keeping.{keeps_call, keeps_said}
use Rattle.station.proofs.Growth.{restated}
use Rattle.station.proofs.TakingGrows.{grown_taken, grown_entered}
use Rattle.station.proofs.TurningGrows.{grown_open_call, grown_said, grown_pass, grown_turn}
use Rattle.station.proofs.Feeding.{fed_moved, fed_kept}
use Rattle.station.proofs.laws.books_follow.Goals as goal

pub returns : goal.returns
returns g c = record {
  at_first = λ next b me roll. record { within = omega arith; book = refl };
  by_noting = λ next b x n h. record { within = h.within; book = h.book };
  by_taking = λ next b x vote f h. fed_moved next b x x.outbox _ (grown_taken vote f x.core) h;
  by_opening = λ next b x vote t h. fed_kept next b x x.outbox _ (grown_open_call vote t x.core) (keeps_call vote t x.core).firm h;
  by_saying = λ next b x k h. fed_kept next b x _ _ (grown_said k x.outbox x.core) (keeps_said k x.outbox x.core).firm h;
  by_passing = λ next b x k h. fed_moved next b x x.outbox _ (grown_pass k x.core) h;
  by_turning = λ next b x vote t h. fed_moved next b x _ _ (grown_turn vote t x.outbox x.core) h;
  by_stopping = λ next b x h. fed_kept next b x x.outbox _ (restated (Out Stopped) x.core) refl h;
  by_entering = λ next b x h. fed_moved next b x x.outbox _ (grown_entered x.core) h;
}
