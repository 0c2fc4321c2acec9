mod Lists
mod Keeps
mod Records
mod Hosts
