-- The program: its exit, its files, the words of its command line, what its files hold and its
-- whole run [P].
pub mod Exit
pub mod Files
pub mod Numbers
pub mod CommandLine
pub mod Media
pub mod ProgramRun
