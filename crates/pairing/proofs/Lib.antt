pub mod SettingOff
