-- What a member in its turn becomes, and the frames that it posts, in order. Assumes nothing.
use Rattle.std.specs.Prelude.{◌≡◌}
use Rattle.protocol.specs.declared.frame.Frame.{Frame}
use Rattle.wires.specs.Lines.{Lines}
use Rattle.journal.specs.declared.store.Journal.{Ghosts}
use Rattle.journal.specs.declared.member.Member.{Member}
use Rattle.journal.specs.Members.{member_core}
use Rattle.turning.specs.Posts.{Posting, Performed}

-- x became y, and lines that were w became v, as a rule says; and the journal's memory stayed where it was
pub record Played {J : Type 0} {g : Ghosts J} (q : Posting) (x y : Member J g) (w v : Lines Frame) : Type 0 where
  pub done : Performed x.status.me q (member_core y) w v
  pub home : g.home y.journal ≡ g.home x.journal
