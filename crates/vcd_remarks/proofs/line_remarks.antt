-- Lemmas of `line_remarks`.
pub mod RemarksOfLine
