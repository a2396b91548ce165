mod Amounts
mod FlagBytes
mod SeatedRows
mod Soundness
