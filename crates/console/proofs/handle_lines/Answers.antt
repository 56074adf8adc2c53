-- What was read lies within the chunk, which is as long as it was lent.
use Rattle.std.proofs.Common.{◌≡◌, length, arith}
use Rattle.console.proofs.handle_lines.Goals as goal

pub slice_bounds-feed-end : goal.slice_bounds-feed-end
slice_bounds-feed-end g c =
    let kept : length c.read.new.buf ≡ length c.as_mut_slice.result.now = c.read.auto.buf in
    omega (arith, c.deref.ensures.len, c.in_ok-count.ensures.bound.0, c.as_mut_slice.ensures.len, kept)
