-- what is reported of an input, and what is left in the caller's memory
pub mod Reports
-- what each export reports
pub mod Exports
