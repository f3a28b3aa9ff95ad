use Rattle.vcd_copy.proofs.marks.MarkWords.{every_mark_is_comment}
use Rattle.vcd_copy.proofs.marks.MarkedFiles.{marked_file_means_same}
use Rattle.vcd_copy.proofs.marks.MarkedCopies.{copy_with_mark_is_copy_of_marked}
use Rattle.vcd_copy.proofs.laws.mark_changes_no_meaning.Goals as goal

pub returns-clause-comment : goal.returns-clause-comment
returns-clause-comment c = every_mark_is_comment

pub returns-clause-same : goal.returns-clause-same
returns-clause-same c = marked_file_means_same

pub returns-clause-copy : goal.returns-clause-copy
returns-clause-copy c = copy_with_mark_is_copy_of_marked
