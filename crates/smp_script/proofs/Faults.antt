-- fields, by their form
pub mod FieldFaults
pub mod SignedFields
pub mod MaskFields
pub mod MemberFields
-- lines, by their shape
pub mod LineShapes
pub mod TitleFields
pub mod OnlineFaults
pub mod LabelFields
pub mod RequestLines
pub mod LineFaults
-- the text
pub mod SharedKeys
pub mod FirstFaults
pub mod OneFault
