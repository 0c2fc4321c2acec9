mod Laws
mod Words
mod Examples
