-- To believe: which faults of a program's start may pass, and what becomes of workers' programs.
pub mod Programs
pub mod WorkerPrograms
