mod Numbers
mod Entries
