mod Drafts
mod Onward
mod Cuts
