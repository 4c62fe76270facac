use Rattle.std.proofs.Common.{◌∙◌, ap, List, ℕ}
use Rattle.byte_base.specs.Numbers.{number_at}
use Rattle.ref_pages.proofs.CourseLemmas.{first_number}
use Rattle.ref_pages.proofs.chain.take_page.Goals as goal

pub returns-clause-next : goal.returns-clause-next
returns-clause-next c =
    c.read_u32.ensures ∙ first_number c.in-Some.bytes.now ∙ ap (λ (bytes : List ℕ). number_at 4 bytes 0) c.in-Some.ensures.is
