use Rattle.std.proofs.Common.{◌∙◌, refl, sym, ap, length}
use Rattle.page_draft.specs.Slots.{now_of}
use Rattle.page_draft.proofs.ListLemmas.{slot_page, page_long}
use Rattle.page_draft.proofs.ChangeLemmas.{bad-read}
use Rattle.page_draft.proofs.draft.PageDraft.page.Goals as goal

pub returns-in-Ok-clause-good : goal.returns-in-Ok-clause-good
returns-in-Ok-clause-good c =
    let d = c.args.self.now in
    ap (λ page. page.bad) (slot_page (now_of d.page_size) d.slots.items c.args.number c.index-slot.result.now c.requires.there.least c.requires.there.most c.index-slot.ensures ∙ c.in-Ok.ensures.good d.page_size)

pub returns-in-Ok-clause-long : goal.returns-in-Ok-clause-long
returns-in-Ok-clause-long c =
    let d = c.args.self.now in
    ap (λ page. length page.bytes) (sym (slot_page (now_of d.page_size) d.slots.items c.args.number c.index-slot.result.now c.requires.there.least c.requires.there.most c.index-slot.ensures ∙ c.in-Ok.ensures.good d.page_size))
    ∙ page_long d.page_size _ c.args.number d.now_long c.requires.there.least c.requires.there.most

pub returns-in-Ok-clause-bytes : goal.returns-in-Ok-clause-bytes
returns-in-Ok-clause-bytes c =
    let d = c.args.self.now in
    ap (λ page. page.bytes) (sym (slot_page (now_of d.page_size) d.slots.items c.args.number c.index-slot.result.now c.requires.there.least c.requires.there.most c.index-slot.ensures ∙ c.in-Ok.ensures.good d.page_size))

pub returns-in-Err-clause-refused : goal.returns-in-Err-clause-refused
returns-in-Err-clause-refused c =
    let d = c.args.self.now in
    (refl, ap (λ page. page.bad) (slot_page (now_of d.page_size) d.slots.items c.args.number c.index-slot.result.now c.requires.there.least c.requires.there.most c.index-slot.ensures) ∙ c.in-Err.ensures.bad d.page_size)

pub returns-in-Err-clause-was_read : goal.returns-in-Err-clause-was_read
returns-in-Err-clause-was_read c =
    let d = c.args.self.now in
    bad-read d c.args.number c.index-slot.result.now _ c.requires.there.least c.requires.there.most c.index-slot.ensures (c.in-Err.ensures.bad d.page_size)
