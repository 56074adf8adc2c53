use Rattle.std.proofs.Common.{get_or, refl, arith, rules}
use Rattle.table.proofs.Pastes.{moved_within}
use Rattle.table.proofs.Packs.{start, spotted, waiting, move, finish}
use Rattle.table.proofs.compact.pack.Goals as goal

pub loop-i-init : goal.loop-i-init
loop-i-init c = start c.args.mem.now c.args.heads.now c.args.spots.now c.requires.inside c.requires.pieces c.requires.ordered

pub overflow_add-n : goal.overflow_add-n
overflow_add-n c = let n = waiting c.requires.ordered c.loop-i-test.true c.if-h-edge.false c.loop-i.invariant in let l = n.lies' in let d = n.down in let w = c.loop-i.invariant.wide in search rules

pub overflow_add-h : goal.overflow_add-h
overflow_add-h c = let n = waiting c.requires.ordered c.loop-i-test.true c.if-h-edge.false c.loop-i.invariant in let l = n.lies' in let d = n.down in let w = c.loop-i.invariant.wide in search rules

pub copy_within-requires-clause-in_bounds : goal.copy_within-requires-clause-in_bounds
copy_within-requires-clause-in_bounds c = let n = waiting c.requires.ordered c.loop-i-test.true c.if-h-edge.false c.loop-i.invariant in omega (arith, n.down, n.lies'.piece, n.lies'.filled, c.loop-i.invariant.wide)

pub copy_within-requires-clause-dest_in_bounds : goal.copy_within-requires-clause-dest_in_bounds
copy_within-requires-clause-dest_in_bounds c = let n = waiting c.requires.ordered c.loop-i-test.true c.if-h-edge.false c.loop-i.invariant in omega (arith, n.down, n.lies'.piece, n.lies'.filled, c.loop-i.invariant.wide)

pub overflow_add-edge : goal.overflow_add-edge
overflow_add-edge c = let n = waiting c.requires.ordered c.loop-i-test.true c.if-h-edge.false c.loop-i.invariant in let l = n.lies' in let d = n.down in let w = c.loop-i.invariant.wide in search rules

pub overflow_add-edge-in-loop-i : goal.overflow_add-edge-in-loop-i
overflow_add-edge-in-loop-i c = let n = waiting c.requires.ordered c.loop-i-test.true c.if-h-edge.false c.loop-i.invariant in let l = n.lies' in let d = n.down in let w = c.loop-i.invariant.wide in search rules

pub overflow_add-to : goal.overflow_add-to
overflow_add-to c = let n = waiting c.requires.ordered c.loop-i-test.true c.if-h-edge.false c.loop-i.invariant in let l = n.lies' in let d = n.down in let w = c.loop-i.invariant.wide in search rules

pub loop-i-preserved : goal.loop-i-preserved
loop-i-preserved c =
    let n = waiting c.requires.ordered c.loop-i-test.true c.if-h-edge.false c.loop-i.invariant in
    move c.args.mem.now c.args.heads.now c.args.spots.now c.loop-i.mem c.loop-i.heads c.loop-i.i-index c.loop-i.to c.loop-i.edge (get_or c.args.spots.now c.loop-i.i-index (0, 0)).1 (spotted c.loop-i.heads c.args.spots.now c.loop-i.i-index) c.copy_within.new.self refl c.if-h-edge.false c.loop-i.invariant n (moved_within c.loop-i.mem c.copy_within.new.self _ c.loop-i.to _ c.copy_within.ensures.after)

pub returns : goal.returns
returns c = finish c.args.mem.now c.args.heads.now c.args.spots.now c.loop-i.mem c.loop-i.heads c.loop-i.i-index c.loop-i.to c.loop-i.edge c.requires.inside (omega (arith, c.loop-i-test.false)) c.loop-i.invariant
