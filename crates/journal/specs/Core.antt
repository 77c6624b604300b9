-- A station as the rules of taking and turning speak of it, without its outbox and its book. Assumes nothing.
use Rattle.std.specs.Prelude.{ℕ, Bool, true, false, not, ◌&&◌, List, [], ◌==◌, nat_lt}
use Rattle.protocol.specs.declared.entry.Entry.{Entry}
use Rattle.journal.specs.declared.state.State.{State}
use Rattle.journal.specs.declared.state.State.TheVariants.{Running, Joining, Out}
use Rattle.journal.specs.declared.peer.Peer.{Peer}
use Rattle.journal.specs.declared.status.Status.{Status}
use Rattle.journal.specs.Peers.{new_peers}

pub record Core : Type 0 where
  pub me : ℕ
  pub roll : ℕ
  pub state : State
  pub journal : List Entry
  pub firm : ℕ
  pub peers : List Peer

abbrev pub with_state : State → Core → Core
with_state s m = record { me = m.me; roll = m.roll; state = s; journal = m.journal; firm = m.firm; peers = m.peers }

abbrev pub with_journal : List Entry → Core → Core
with_journal j m = record { me = m.me; roll = m.roll; state = m.state; journal = j; firm = m.firm; peers = m.peers }

abbrev pub with_firm : ℕ → Core → Core
with_firm k m = record { me = m.me; roll = m.roll; state = m.state; journal = m.journal; firm = k; peers = m.peers }

abbrev pub with_peers : List Peer → Core → Core
with_peers ps m = record { me = m.me; roll = m.roll; state = m.state; journal = m.journal; firm = m.firm; peers = ps }

-- a station of a new ring
abbrev pub new_core : ℕ → ℕ → Core
new_core me roll = record { me = me; roll = roll; state = Running; journal = []; firm = 0; peers = new_peers }

-- what a station keeps apart from its journal, and the journal's entries
abbrev pub core_of : Status → List Entry → Core
core_of x j = record { me = x.me; roll = x.roll; state = x.state; journal = j; firm = x.firm; peers = x.peers }

abbrev pub is_running : State → Bool
is_running Running = true
is_running Joining = false
is_running (Out c) = false

abbrev pub is_out : State → Bool
is_out Running = false
is_out Joining = false
is_out (Out c) = true

-- s is another station of the roll
abbrev pub other : ℕ → ℕ → ℕ → Bool
other me roll s = nat_lt s roll && not (s == me)
