-- The place that the search answers is that of the first fault.
use Rattle.std.proofs.Common.{◌≡◌, not, Err, ap, ◌∙◌, rules, tests}
use Rattle.std.specs.List.{position}
use Rattle.std.proofs.lemmas.Iterator.{YieldsList-from_slice}
use Rattle.std.proofs.lemmas.Iterator.Search.{position_from_yields_List}
use Rattle.model.specs.Calls.{answer}
use Rattle.board.proofs.FirstFault.{first_fault_at}
use Rattle.board.proofs.checks.check_each.Goals as goal

pub returns-in-Some : goal.returns-in-Some
returns-in-Some g c =
    let found : c.position.result ≡ position (λ x. not (g.T.Listed.fits c.args.partitions x)) c.args.items.now = position_from_yields_List _ _ _ _ c.position.ensures.ran (YieldsList-from_slice _ c.iter.ensures.rest) (λ x b q k. search (rules, tests)) in
    ap Err c.refusal.ensures ∙ ap answer (first_fault_at (g.T.Listed.fits c.args.partitions) g.T.Listed.named c.args.items.now _ _ c.in-Some.is found)

pub returns-in-None : goal.returns-in-None
returns-in-None g c =
    let found : c.position.result ≡ position (λ x. not (g.T.Listed.fits c.args.partitions x)) c.args.items.now = position_from_yields_List _ _ _ _ c.position.ensures.ran (YieldsList-from_slice _ c.iter.ensures.rest) (λ x b q k. search (rules, tests)) in
    ap answer (first_fault_at (g.T.Listed.fits c.args.partitions) g.T.Listed.named c.args.items.now _ _ c.in-None.is found)
