-- Each turn writes the line of one element more.
use Rattle.std.proofs.Common.{◌++◌, [], ◌∷◌, true, refl, sym, ap, take, ◌∙◌}
use Rattle.std.proofs.lemmas.List.{take_more, take_all, flat_map_more}
use Rattle.std.proofs.Output.{has_written_append, has_written_of_eq}
use Rattle.replies.specs.Texts.{lines_text}
use Rattle.replies.proofs.reply.write_lines.Goals as goal

pub loop-element-preserved : goal.loop-element-preserved
loop-element-preserved g c text is plain =
    let took = g.W.Write.write_str_gives in
    let f = c.args.f.now in
    let xs = c.args.elements.now in
    let i = c.loop-element.element-index in
    let x = c.element-item.result in
    let before = c.loop-element.invariant text is plain in
    let line = c.in_ok-write.ensures.writes in
    let wrote = rw (is x) at line in
    let more = ap (λ (y : g.row.T.Denot). take i xs ++ y ∷ []) c.element-item.is ∙ sym (take_more xs i x c.loop-element-test.true) in
    has_written_of_eq took f _ _ c.write.new.self (flat_map_more text [] (take i xs) x ∙ ap (lines_text text) more)
    (has_written_append took f _ c.loop-element.f _ c.write.new.self before (wrote before.plain (refl {a = true})))

pub returns : goal.returns
returns g c text is plain ok =
    has_written_of_eq _ _ _ _ _ (ap (lines_text text) (take_all _ _ c.loop-element-test.false)) (c.loop-element.invariant text is plain)
