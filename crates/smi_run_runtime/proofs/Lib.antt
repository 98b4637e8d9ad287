mod Accepting
mod Count
mod Places
mod Refusing
