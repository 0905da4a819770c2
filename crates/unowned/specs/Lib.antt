pub mod Unowned
