-- A line's handler takes a tick at least, so its grant opens.
use Rattle.std.proofs.Common.{◌+◌, cond, Some, sym, ap, ◌∙◌, arith}
use Rattle.model.specs.declared.board.Line.{Line}
use Rattle.model.specs.declared.board.Overheads.{Overheads}
use Rattle.model.specs.Tick.{grant, closing}
use Rattle.model.specs.Core.{fresh_grant}
use Rattle.parts.specs.Grants.{opened}
use Rattle.scheduler.specs.View.{board_of}
use Rattle.scheduler.proofs.BoardRanges.{board_ranges}
use Rattle.scheduler.proofs.Bursts.{still_open}
use Rattle.scheduler.proofs.tables.Tables.next_grant.Goals as goal

pub returns : goal.returns
returns c =
    let b = board_of c.args.self.now in
    let k = c.args.line in
    let line = (board_ranges c.args.self.now.board).each_line k c.requires.known in
    let handler = ap (λ (l : Line). l.handler) c.requires.read in
    c.new.ensures
    ∙ (ap (λ (o : Overheads). closing (grant k (o.reschedule + o.switch) c.args.wired.handler o.switch)) c.overheads-overheads.ensures
    ∙ (ap (λ h. closing (grant k (b.overheads.reschedule + b.overheads.switch) h b.overheads.switch)) handler
    ∙ (still_open k (b.overheads.reschedule + b.overheads.switch) (fresh_grant b k).work b.overheads.switch (omega (arith, line.handler_some))
    ∙ sym (ap (λ t. cond t (Some (fresh_grant b k)) (opened c.args.self.now.grant)) c.if-not-permitted.false))))
