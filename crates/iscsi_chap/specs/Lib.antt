pub mod Algorithms
pub mod Digests
pub mod Binaries
pub mod Entries
pub mod Secrets
pub mod Accesses
pub mod Authentications
pub mod Responses
