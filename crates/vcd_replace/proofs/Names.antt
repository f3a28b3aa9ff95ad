-- Worked cases: the folder of a path, and the one in which an output is written.
use Rattle.std.proofs.Common.{◌≡◌, refl, codes, None}
use Rattle.std.specs.Path.{path_parent, rsplit_once, split_last_component, trim_trailing}
use Rattle.vcd_replace.specs.Names.{folder_of, folder_name}

pub of_a_name : folder_of (path_parent (codes "x")) ≡ codes "."
unfolding path_parent split_last_component trim_trailing rsplit_once
of_a_name = refl

pub of_a_name_in_the_root : folder_of (path_parent (codes "/x")) ≡ codes "/"
unfolding path_parent split_last_component trim_trailing rsplit_once
of_a_name_in_the_root = refl

pub of_a_longer_path : folder_of (path_parent (codes "a/b/x")) ≡ codes "a/b"
unfolding path_parent split_last_component trim_trailing rsplit_once
of_a_longer_path = refl

pub of_no_parent : folder_of None ≡ codes "."
of_no_parent = refl

pub hidden : folder_name (codes "c.vcd") ≡ codes ".c.vcd.vcdedit"
hidden = refl
