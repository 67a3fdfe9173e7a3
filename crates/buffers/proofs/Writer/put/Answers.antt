use Rattle.std.proofs.Common.{◌+◌, ◌≤◌, length, refl, arith, length-drop}
use Rattle.buffers.specs.Writing.{so_far, left}
use Rattle.buffers.proofs.Parts.{front_written, rest_left, room_left}
use Rattle.buffers.proofs.Writer.put.Goals as goal

pub slice_bounds-copy_from_slice-end : goal.slice_bounds-copy_from_slice-end
unfolding left
slice_bounds-copy_from_slice-end c = let w = c.args.self.now in omega (arith, w.inside, length-drop w.at w.buffer.now)

pub returns : goal.returns
unfolding so_far left
returns c =
    let w = c.args.self.now in
    let bytes = c.args.bytes.now in
    let old = w.buffer.now in
    let new = c.copy_from_slice.new.self in
    let same = c.copy_from_slice.ensures.after in
    let fits : w.at + length bytes ≤ length old = omega (arith, w.inside, length-drop w.at old) in
    record {
      more = front_written w.at old new bytes same fits;
      rest = rest_left w.at old new bytes same fits;
      room = room_left w.at old new bytes same fits;
      same_buffer = refl;
    }
