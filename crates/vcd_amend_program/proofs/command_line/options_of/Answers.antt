-- The getters read the rows of the words.
use Rattle.vcd_amend_program.proofs.command_line.AskedOptions.{read_options}
use Rattle.vcd_amend_program.proofs.command_line.options_of.Goals as goal

pub returns-clause-asked : goal.returns-clause-asked
returns-clause-asked c = λ words rows. read_options c.args.matches.now words _ _ _ _ _ _ _ _ _ _ _ _ _ rows
    c.get_str.ensures c.get_str-2.ensures c.get_str-3.ensures c.get_str-4.ensures c.get_str-5.ensures
    c.depth_of.ensures.depth
    c.is_given.ensures c.is_given-2.ensures c.is_given-3.ensures c.get_strs.ensures c.get_strs-2.ensures
    c.get_str-6.ensures
    c.get_str-7.ensures
