pub mod WantBack
