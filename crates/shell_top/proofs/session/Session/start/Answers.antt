use Rattle.std.proofs.Common.{ap, sym, length, ◌∙◌}
use Rattle.shell_top.specs.Rows.{row_file}
use Rattle.shell_top.proofs.SessionLemmas.{row_file_empty, is_open, opened_bytes}
use Rattle.shell_top.proofs.session.Session.start.Goals as goal

pub returns-in-Ok-clause-stands : goal.returns-in-Ok-clause-stands
returns-in-Ok-clause-stands g c = record {
  table = (
    c.in-Ok.ensures.opens.0,
    record {
      bare = c.open_empty.ensures.touches.steady.layers ∙ c.requires.bare;
      opened = is_open _ _ c.in-Ok.ensures.opens.0;
      only = c.in-Ok.ensures.opens.1;
      bytes = λ tells.
          opened_bytes (g.V.Vfs.state c.open_empty.new.stack) c.args.name.now c.in-Ok.file.0 c.in-Ok.ensures.opens.0
          ∙ c.in-Ok.ensures.opens.2 tells ∙ sym row_file_empty ∙ ap row_file (sym c.new-rows.ensures);
    },
  );
}

pub returns-in-Ok-clause-empty : goal.returns-in-Ok-clause-empty
returns-in-Ok-clause-empty g c = ap (λ rows. length (row_file rows)) c.new-rows.ensures ∙ ap (λ bytes. length bytes) row_file_empty
