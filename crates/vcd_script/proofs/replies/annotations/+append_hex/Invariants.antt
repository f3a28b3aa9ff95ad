use Rattle.vcd_script.proofs.replies.annotations.+append_hex.Given as goal

abbrev pub decreases-append_hex : goal.decreases-append_hex
decreases-append_hex l = l.digits
