mod Options
mod Decimal
mod Cuts
mod Args
mod Commands
mod Reading
mod Texts
