pub mod Words
pub mod Lines
pub mod Numbering
pub mod CertificateText
