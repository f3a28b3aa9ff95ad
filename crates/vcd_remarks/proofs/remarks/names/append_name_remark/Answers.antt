use Rattle.std.proofs.Common.{List, ℕ, ◌++◌, sym, ap, ◌∙◌}
use Rattle.std.proofs.lemmas.Result.{on_ok_weaker}
use Rattle.vcd_core.specs.CaptureContents.{contents, signal_contents}
use Rattle.vcd_core.specs.Names.{full_name, full_names}
use Rattle.vcd_remarks.specs.Remarks.{remarks_text}
use Rattle.vcd_remarks.proofs.remarks.NamesOfSeveral.{name_at, absent, not_first, first_named}
use Rattle.vcd_remarks.proofs.remarks.names.append_name_remark.Goals as goal

pub returns-in_default-name_in_line : goal.returns-in_default-name_in_line
returns-in_default-name_in_line c =
    let names = full_names (contents c.args.capture.now).signals in
    let name = full_name (signal_contents c.in-Some.signal.now) in
    let is = name_at c.args.capture.now.signals _ c.args.position c.in-Some.signal.now c.signals.ensures
    c.in-Some.ensures.lookup.3.0 c.in-Some.ensures.lookup.1 in
    absent names c.args.line.now name c.args.position is c.args.number c.args.text.now.items
    c.in_default-name_in_line.ensures

pub returns-then-not-is_first_of_several : goal.returns-then-not-is_first_of_several
returns-then-not-is_first_of_several c =
    let names = full_names (contents c.args.capture.now).signals in
    let is = name_at c.args.capture.now.signals _ c.args.position c.in-Some.signal.now c.signals.ensures
    c.in-Some.ensures.lookup.3.0 c.in-Some.ensures.lookup.1
    ∙ sym c.in-Some-name_in_line.ensures.0 in
    not_first names c.args.line.now c.in-Some-name_in_line.name.now c.args.position is c.args.number
    c.args.text.now.items (sym c.is_first_of_several.ensures ∙ c.if-not-is_first_of_several.true)

pub returns : goal.returns
returns c =
    let names = full_names (contents c.args.capture.now).signals in
    let is = name_at c.args.capture.now.signals _ c.args.position c.in-Some.signal.now c.signals.ensures
    c.in-Some.ensures.lookup.3.0 c.in-Some.ensures.lookup.1
    ∙ sym c.in-Some-name_in_line.ensures.0 in
    let remark = first_named names c.args.line.now c.in-Some-name_in_line.name.now c.args.position is
    (sym c.is_first_of_several.ensures ∙ c.if-not-is_first_of_several.false) c.in-Some-name_in_line.ensures.1 in
    on_ok_weaker c.append_several_remark.result
    (λ appended. appended ∙ ap (λ (rs : List (List ℕ)). c.args.text.now.items ++ remarks_text c.args.number rs) remark)
    c.append_several_remark.ensures
