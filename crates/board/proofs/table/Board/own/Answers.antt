-- The cycle of a board is not long, and what a partition owns is within it.
use Rattle.std.proofs.Common.{ap, arith}
use Rattle.model.specs.Board.{owned_in}
use Rattle.model.proofs.Ranges.{in_range_lem}
use Rattle.model.proofs.Cycle.{cycle_few, own_few}
use Rattle.board.specs.Held.{held}
use Rattle.board.proofs.table.Board.own.Goals as goal

pub owned_in-requires : goal.owned_in-requires
owned_in-requires c =
    let b = held c.args.self.now in
    let few = cycle_few b (in_range_lem b c.args.self.now.in_range) in
    let part = own_few b c.args.partition in
    let same = ap (owned_in c.args.partition) c.deref.ensures.0 in
    omega arith
