pub mod PrintedLines
