use Rattle.std.proofs.Common.{arith}
use Rattle.asking.specs.House.{Peer}
use Rattle.sessions.specs.View.{kept_bytes}
use Rattle.sessions.specs.Peers.{recording}
use Rattle.sessions.proofs.Entries.{entry_changed}
use Rattle.sessions.proofs.sessions.Sessions.keep.Goals as goal

pub returns : goal.returns
returns c =
    entry_changed c.args.self.now.next.0 _ _ _ _ _ c.as_mut_slice.ensures.value c.index.ensures.value (omega arith)
    (λ (p : Peer). recording c.args.request.slot.0 c.args.request.seq.0 (kept_bytes c.args.answer) p) _ _ c.record.ensures
