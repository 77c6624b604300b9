use Rattle.std.proofs.Common.{refl, ap, ◌∙◌}
use Rattle.std.proofs.lemmas.Bool.{cond-false}
use Rattle.journal.specs.Settle.{settle_on}
use Rattle.taking.specs.declared.filing.Filing.{Filing}
use Rattle.taking.specs.Take.{entry_running, entry_joining}
use Rattle.taking.specs.Lawful.{lawful}
use Rattle.station.proofs.Settling.{settle_on_same}
use Rattle.station.proofs.laws.ignored_frames.Goals as goal

pub returns : goal.returns
returns c = record {
  nothing = λ vote f m e h. ap settle_on e ∙ settle_on_same m h;
  unlawful = λ vote f m e. cond-false (lawful m.me m.roll vote f) _ _ e;
  stray_running = λ s before e m h. ap (λ (q : Filing). entry_running q s e m) h;
  stray_joining = λ s before e m h. ap (λ (q : Filing). entry_joining q s e m) h;
  join_joining = λ s e m. refl;
}
