mod Bytes
mod CsvSteps
mod CsvFields
mod CsvRecords
mod OwnSteps
mod LastBytes
mod OwnRecords
mod Written
