-- Worked examples of the rules: of voting, of the entry book, of a station, and of runs. Assumes nothing.
use Rattle.vote.specs.Examples.{VoteExamples}
use Rattle.entry_laws.specs.EntryExamples.{DutyOf69840, ClosingWithoutFreight}
use Rattle.station.specs.Examples.{StationExamples}
use Rattle.runs.specs.Examples.{RunExamples, CalmExample}

pub record WorkedExamples : Type 0 where
  pub voting : VoteExamples
  pub duty : DutyOf69840
  pub closing : ClosingWithoutFreight
  pub stations : StationExamples
  pub runs : RunExamples
  pub calm : CalmExample
