-- The definitions of vcd_edit: edits with their faults and effects, records, and the changes that
-- they touch.
pub mod EditErrorNames
pub mod Operators
pub mod OperatorTables
pub mod Effect
pub mod EditFaults
pub mod EditAnswers
pub mod Laws
pub mod RecordView
pub mod Records
pub mod AppliedRecords
pub mod EffectLaws
pub mod Touched
pub mod TouchedByEdit
pub mod inside
