-- The costs are in range, so none of the products is large.
use Rattle.std.proofs.Common.{arith}
use Rattle.curve.proofs.Demands.{figures}
use Rattle.curve.proofs.load.Load.share.Goals as goal

pub times-requires : goal.times-requires
times-requires g c =
    let few = figures c.args.self.now.board.now (g.met.C.Curve.lawful c.args.self.now.curve.now) c.args.k c.args.window c.most-events.ensures c.requires.known c.requires.read c.overheads-overheads.ensures in
    omega arith

pub times-requires-then-from-self : goal.times-requires-then-from-self
times-requires-then-from-self g c =
    let few = figures c.args.self.now.board.now (g.met.C.Curve.lawful c.args.self.now.curve.now) c.args.k c.args.window c.most-events.ensures c.requires.known c.requires.read c.overheads-overheads.ensures in
    omega arith

pub times-handled-requires : goal.times-handled-requires
times-handled-requires g c =
    let few = figures c.args.self.now.board.now (g.met.C.Curve.lawful c.args.self.now.curve.now) c.args.k c.args.window c.most-events.ensures c.requires.known c.requires.read c.overheads-overheads.ensures in
    omega arith

pub times-requires-2 : goal.times-requires-2
times-requires-2 g c =
    let few = figures c.args.self.now.board.now (g.met.C.Curve.lawful c.args.self.now.curve.now) c.args.k c.args.window c.most-events.ensures c.requires.known c.requires.read c.overheads-overheads.ensures in
    omega arith
