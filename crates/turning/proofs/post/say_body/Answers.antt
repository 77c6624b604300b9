use Rattle.std.proofs.Common.{List, [], ◌∷◌, ◌++◌, ap, ◌∙◌}
use Rattle.journal.specs.Core.{core_of}
use Rattle.protocol.specs.declared.entry.Entry.{Entry}
use Rattle.turning.specs.Posts.{next_entry}
use Rattle.turning.proofs.Posting.{said_lines}
use Rattle.turning.proofs.post.say_body.Goals as goal

pub returns : goal.returns
returns g c =
    let j = g.J.Journal.entries c.args.journal.now in
    record {
      home = c.push.ensures.home;
      turn = record {
        station = ap (core_of c.args.status.now)
            (c.push.ensures.entries ∙ ap (λ (h : List Entry). j ++ next_entry c.args.t c.args.body h ∷ []) c.as_slice-held.ensures.value);
        lines = said_lines c.args.status.now.me c.args.t c.last_turn-before.result c.args.body c.as_slice-held.result.now j
            (g.W.Wire.lines c.args.wire.now) _ c.as_slice-held.ensures.value c.last_turn-before.ensures c.post.ensures.after;
      };
    }
