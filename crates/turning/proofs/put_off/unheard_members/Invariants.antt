-- what is left, added to what is found, is all
use Rattle.std.proofs.Common.{◌≡◌, ◌-◌, ◌≤◌}
use Rattle.std.specs.Iterator.Adapters.{rev_source}
use Rattle.turning.proofs.Rounds.{back}
use Rattle.turning.proofs.put_off.unheard_members.Given as goal

abbrev pub invariant-round : goal.invariant-round
invariant-round l =
    let r = rev_source l.back in record {
      first : r.start ≡ 1;
      last : r.end ≤ l.status.roll;
      same : back l.status.roll l.status.me l.view l.status.peers (r.end - 1) l.gone
          ≡ back l.status.roll l.status.me l.view l.status.peers (l.status.roll - 1) 0;
    }

abbrev pub decreases-round : goal.decreases-round
decreases-round l = (rev_source l.back).end

-- going to the member before finds nothing
abbrev pub invariant-loop-left : goal.invariant-loop-left
invariant-loop-left l =
    let r = rev_source l.back in record {
      first : r.start ≡ 1;
      last : r.end ≤ (rev_source l.initial.back).end;
      same : back l.status.roll l.status.me l.view l.status.peers (r.end - 1) l.gone
          ≡ back l.status.roll l.status.me l.view l.status.peers ((rev_source l.initial.back).end - 1) l.gone;
    }

abbrev pub decreases-loop-left : goal.decreases-loop-left
decreases-loop-left l = (rev_source l.back).end
