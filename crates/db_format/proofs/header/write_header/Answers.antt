use Rattle.db_format.proofs.WriteLemmas.{Writes, says, keeps}
use Rattle.db_format.proofs.ReadLemmas.{kept_sound, was_accepted, reads_sound}
use Rattle.db_format.proofs.header.write_header.Goals as goal

pub returns : goal.returns
returns c =
    let steps : Writes c.args.header.now c.stored_page.result c.args.page.now c.put_short.new.page c.put_numbers.new.page c.put_numbers-2.new.page c.put_numbers-3.new.page =
    record { room = c.requires.room; code_is = c.stored_page.ensures; codes_page = c.put_short.ensures; counts = c.put_numbers.ensures; forms = c.put_numbers-2.ensures; marks = c.put_numbers-3.ensures } in
    let said = says _ _ _ _ _ _ _ steps in
    let kept = keeps _ _ _ _ _ _ _ steps in
    record {
      says = said;
      kept = kept;
      reads_back = record {
        read = λ was len cksum read fits.
            reads_sound _ _ cksum (kept_sound _ _ _ len cksum kept said (was_accepted _ len cksum was read)) fits;
      };
    }
