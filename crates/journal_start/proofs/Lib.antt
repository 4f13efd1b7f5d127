mod DiskLemmas
mod GroupLemmas
mod StartLemmas
