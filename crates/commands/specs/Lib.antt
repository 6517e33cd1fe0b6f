-- why calls fail, texts of jobs, files of a kernel's tracer, the exit status
pub mod Failures
pub mod Jobs
pub mod Status
