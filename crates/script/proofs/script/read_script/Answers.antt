-- Each line after the first is read.
use Rattle.std.proofs.Common.{ap, rules}
use Rattle.std.proofs.lemmas.Iterator.{YieldsList-from_map, items_from_collect}
use Rattle.std.proofs.lemmas.Iterator.Consumers.{YieldsList-from_first}
use Rattle.script.specs.Lines.{unread_lines}
use Rattle.script.specs.Script.{later_line}
use Rattle.script.proofs.script.read_script.Goals as goal

pub returns : goal.returns
returns c =
    let read =
    items_from_collect {s = c.map.result} c.collect.result c.collect.ensures.ran
    (YieldsList-from_map _ later_line (YieldsList-from_first (λ x. x.now) unread_lines _ (ap unread_lines c.map.ensures.source)) c.map.ensures.closure (λ x r q k. search rules))
    in
    let items = rw c.in_ok-calls.was at read in
    search rules
