use Rattle.record_files.proofs.RowTexts.{row_four}
use Rattle.record_files.proofs.row_buffer.RowBuffer.put_row_4.Goals as goal

pub returns : goal.returns
returns c =
    row_four _ _ _ _ _ _ _ _ _ c.put_field.ensures.text c.put_field-2.ensures.text
    c.put_field-3.ensures.text
    c.put_field-4.ensures.text
