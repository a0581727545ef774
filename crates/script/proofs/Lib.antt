mod Cutting
mod Payloads
