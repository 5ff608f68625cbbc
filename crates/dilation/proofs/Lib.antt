pub mod DilateLaws
