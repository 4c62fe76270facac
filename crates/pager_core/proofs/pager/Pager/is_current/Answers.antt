use Rattle.std.proofs.Common.{rules, arith, Bool, Err, sym, ◌∙◌, subst}
use Rattle.pager_core.specs.Read.{ReadCause}
use Rattle.std.proofs.lemmas.Bool.{eqb-true}
use Rattle.pager_core.proofs.ReadLemmas.{current, counter_refused}
use Rattle.pager_core.proofs.pager.Pager.is_current.Goals as goal

pub returns-in-Ok-clause-current : goal.returns-in-Ok-clause-current
returns-in-Ok-clause-current g c = λ same.
    let state = g.V.Vfs.state in
    current (state c.args.stack.now) (state c.read.new.self) c.args.self.now c.in-Ok.field-0 c.read.new.buf c.requires.named (omega arith) (search rules) c.in-Ok.ensures.reads c.in-Ok.ensures.fills
    c.in-Ok.ensures.cause (sym c.u32_at.ensures ∙ eqb-true _ _ same ∙ c.counter.ensures.value)

pub returns-in-Err-clause-cause : goal.returns-in-Err-clause-cause
returns-in-Err-clause-cause g c =
    let state = g.V.Vfs.state in
    subst (λ f. ReadCause {T = Bool} (state c.args.stack.now) (state c.read.new.self) c.args.self.now.name c.args.self.now.pages.page_size (Err f)) (sym c.first_fault.ensures)
    (counter_refused Bool (state c.args.stack.now) (state c.read.new.self) c.args.self.now c.in-Err.fault c.requires.named c.read_size.ensures.sizes.size_of_page.least c.requires.stands c.in-Err.ensures.cause)
